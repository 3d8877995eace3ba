pub mod ByTable
pub mod TwoLevels
