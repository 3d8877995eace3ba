pub mod Calls
pub mod Frames
pub mod Glyph
pub mod Offsets
pub mod Pictures
pub mod Rows
pub mod Strips
