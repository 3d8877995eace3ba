pub mod ArrivalRefusals
pub mod ArrivalSheets
