pub mod Printer
pub mod Reader
pub mod Text
