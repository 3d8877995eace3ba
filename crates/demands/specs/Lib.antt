-- The user's demands as theorems about the definitions of the calls. docs/PROMISES.md quotes each sentence next to its theorem.
pub mod Families
pub mod Jobs
pub mod Keeping
pub mod Leaves
pub mod Numbers
pub mod Others
pub mod Paper
pub mod Renaming
pub mod Settling
pub mod Shallow
pub mod Sheets
