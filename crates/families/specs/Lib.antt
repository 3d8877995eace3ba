pub mod FamilyNet
pub mod Marked
pub mod Outcomes
