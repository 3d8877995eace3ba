pub mod ArrivalAnswers
pub mod Ends
pub mod Sheet
pub mod Wires
