pub mod KeptChains
pub mod Sames
