pub mod Choices
pub mod Depths
pub mod FewestLayers
pub mod Layers
pub mod Shallow
