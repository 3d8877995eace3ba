pub mod Fast
pub mod Reader
pub mod Tidying
