pub mod Prints
pub mod Refusals
