pub mod AnswerMaps
pub mod Kinds
pub mod Layered
