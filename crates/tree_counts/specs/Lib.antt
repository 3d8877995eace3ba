pub mod Counts
pub mod Fast
pub mod Numbered
pub mod Walk
pub mod Walking
