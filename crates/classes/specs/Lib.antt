pub mod Chains
pub mod Counting
pub mod Differences
pub mod Fast
pub mod Firsts
pub mod Keys
pub mod Within
