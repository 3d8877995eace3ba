pub mod Chunks
pub mod Scanning
pub mod ShallowKeeping
