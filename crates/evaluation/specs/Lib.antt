pub mod Fast
pub mod Gates
pub mod Lists
pub mod Values
