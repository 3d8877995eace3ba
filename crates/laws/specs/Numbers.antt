pub mod Assignments
pub mod Decimals
pub mod Digits
pub mod Levels
pub mod Quarters
pub mod Sizes
