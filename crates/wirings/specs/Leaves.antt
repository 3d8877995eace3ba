pub mod Blocks
pub mod Chosen
