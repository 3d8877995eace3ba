pub mod ButLast
pub mod RenamedGates
pub mod RenamedNets
pub mod RenamedWirings
pub mod Renaming
