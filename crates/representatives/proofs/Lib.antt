pub mod Agreeing
pub mod GroupSteps
pub mod Spreading
pub mod Taking
