pub mod Folds
pub mod Halves
