pub mod Carried
pub mod CarriedValues
pub mod DigitRule
pub mod Digits
pub mod Fillings
pub mod GateGroups
pub mod GateLinks
pub mod SettledRules
