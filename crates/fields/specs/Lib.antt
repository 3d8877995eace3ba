pub mod Chained
pub mod Decimals
pub mod Header
pub mod Judging
pub mod Runs
pub mod Steps
pub mod Taken
pub mod Words
