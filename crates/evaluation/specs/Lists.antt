pub mod Runs
pub mod Pairs
pub mod Entries
pub mod Wires
pub mod Laid
pub mod Painted
pub mod Cells
pub mod Slices
