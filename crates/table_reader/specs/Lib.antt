pub mod Digits
pub mod Fast
pub mod Full
pub mod Head
pub mod Inks
pub mod Levels
pub mod Row
pub mod TableReading
