pub mod Digits
pub mod GateLines
pub mod Gates
pub mod Keys
pub mod NetReading
pub mod References
