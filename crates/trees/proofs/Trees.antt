pub mod Existence
pub mod GateLists
pub mod LinesTree
pub mod NetTables
pub mod TreeExistence
pub mod TreeLists
pub mod Uniqueness
