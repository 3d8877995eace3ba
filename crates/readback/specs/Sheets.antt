pub mod CutSheets
pub mod Header
pub mod Length
pub mod Lines
pub mod ReadBack
