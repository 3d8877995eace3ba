pub mod RenamedFamilies
pub mod RenamedKeeping
pub mod RenamedSheets
pub mod Renaming
