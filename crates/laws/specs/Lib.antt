pub mod Calls
pub mod Cases
pub mod Lists
pub mod Nets
pub mod Numbers
pub mod Prelude
