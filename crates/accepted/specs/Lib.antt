pub mod Both
pub mod Taken
