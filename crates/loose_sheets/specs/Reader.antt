pub mod Index
pub mod Levels
pub mod LooseReading
pub mod Row
pub mod Rows
