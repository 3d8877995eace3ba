pub mod ArrivalSheet
pub mod Fields
pub mod LooseSheet
pub mod Printed
pub mod Reading
pub mod SheetRules
pub mod Sheets
