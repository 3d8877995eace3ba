pub mod Answered
pub mod Calls
pub mod Input
pub mod Outcomes
pub mod Room
