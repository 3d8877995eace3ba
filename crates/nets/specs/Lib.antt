pub mod Evaluating
pub mod Forms
pub mod Growing
pub mod References
pub mod Room
pub mod Sound
pub mod Tables
