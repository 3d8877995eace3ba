pub mod Changed
pub mod Groups
pub mod Judging
pub mod KeepAnswers
pub mod LeftOut
pub mod Rewriting
