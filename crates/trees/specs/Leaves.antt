pub mod CutWirings
pub mod FewestGates
pub mod IdleMarks
pub mod LeafGroup
pub mod Mattering
pub mod Neighbours
