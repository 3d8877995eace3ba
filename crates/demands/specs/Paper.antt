pub mod Conjecture2
pub mod Conjecture3
pub mod Decompositions
pub mod FanoutFree
pub mod PartitionMatrix
