pub mod CutWirings
pub mod FewestGates
pub mod IdleMarks
