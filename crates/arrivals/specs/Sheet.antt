pub mod ArrivalReading
pub mod Line
pub mod Lines
pub mod Times
