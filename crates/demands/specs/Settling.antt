pub mod AnyStore
pub mod Assignments
pub mod Makes
pub mod Settles
pub mod StoredMarks
pub mod TreeClause
