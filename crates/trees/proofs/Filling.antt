pub mod Fillings
pub mod GateGroups
