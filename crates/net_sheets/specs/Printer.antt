pub mod Gates
pub mod Kept
pub mod Output
