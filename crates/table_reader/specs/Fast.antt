pub mod Block
pub mod Blocks
pub mod Due
pub mod Plain
pub mod Rows
pub mod Stand
pub mod Words
