pub mod Keeping
pub mod KeepingLengths
pub mod KeptNets
