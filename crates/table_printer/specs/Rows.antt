pub mod Next
pub mod Parts
pub mod Rows
pub mod Words
