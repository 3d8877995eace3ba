pub mod Bound
pub mod Full
pub mod Tables
