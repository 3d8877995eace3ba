pub mod GateLines
pub mod Gates
pub mod NetSheets
pub mod References
pub mod Unused
