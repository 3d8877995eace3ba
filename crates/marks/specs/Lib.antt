pub mod Fast
pub mod FirstParts
pub mod GroupRule
pub mod Marked
pub mod Marking
pub mod NoTreePlace
pub mod Searching
pub mod Splits
