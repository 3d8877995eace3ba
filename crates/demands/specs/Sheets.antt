pub mod FirstLines
pub mod FullSheets
pub mod Lengths
pub mod LongSheets
pub mod TableLines
