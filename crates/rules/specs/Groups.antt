pub mod Differences
pub mod Groups
pub mod Marks
