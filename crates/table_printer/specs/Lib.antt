pub mod Lengths
pub mod Rows
pub mod Tables
pub mod Writing
