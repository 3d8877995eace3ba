pub mod Fronts
pub mod Members
pub mod Offsets
pub mod Parts
pub mod Weights
pub mod Widths
