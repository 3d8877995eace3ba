pub mod Layers
pub mod Shallow
pub mod ShallowNet
pub mod ShallowTables
