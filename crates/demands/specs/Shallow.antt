pub mod RoomToSpare
pub mod ShallowLengths
pub mod ShallowMakes
pub mod ShallowRefusals
pub mod ShallowSettles
pub mod ShallowerSheets
