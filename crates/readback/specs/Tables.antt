pub mod LooseFields
pub mod LoosePlaces
pub mod LooseSheets
pub mod LooseTables
pub mod TableLength
pub mod TableSheets
