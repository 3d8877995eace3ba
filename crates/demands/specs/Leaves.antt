pub mod LeafInputs
pub mod LeafTrees
pub mod Leaves
