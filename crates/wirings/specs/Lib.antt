pub mod Added
pub mod AddedWiring
pub mod Choice
pub mod Chosen
pub mod Fast
pub mod FewestLayers
pub mod Leaves
pub mod Links
