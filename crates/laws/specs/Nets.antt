pub mod ArrivalEnds
pub mod Inks
pub mod Layers
pub mod Pictures
pub mod SettlingTimes
pub mod StoredMarks
pub mod Times
pub mod UsedGates
