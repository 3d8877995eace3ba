pub mod Arrivals
pub mod Checks
pub mod Counting
pub mod Glyphs
pub mod Listing
pub mod OpenCells
pub mod Programs
pub mod Tidying
