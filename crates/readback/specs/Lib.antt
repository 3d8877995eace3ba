-- Theorems about sheets: what was printed is read back, what was accepted is what would be printed (`Sheets`), and where and why a sheet is refused
-- (`Readers`).
pub mod Arrivals
pub mod Nets
pub mod Readers
pub mod Sheets
pub mod Tables
