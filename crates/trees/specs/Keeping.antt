pub mod ChangedGates
pub mod KeptLinks
pub mod KeptWirings
