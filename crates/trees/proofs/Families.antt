pub mod Families
pub mod FamilyBounds
pub mod FamilyNets
pub mod FamilyWirings
pub mod NormalWirings
