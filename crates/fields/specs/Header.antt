pub mod FirstLines
pub mod Keys
pub mod NameLine
pub mod Names
pub mod Same
pub mod Values
