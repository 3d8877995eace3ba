pub mod Calls
pub mod Places
pub mod Reached
pub mod Standing
pub mod Turns
