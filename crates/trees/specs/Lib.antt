-- Theorems about the definitions of `rules`. docs/PROMISES.md lists them next to the sentences that they prove.
-- Those that rest on a definition which a must-fail edit changes stand in proofs/, under the same file names.
pub mod Arrivals
pub mod Families
pub mod Filling
pub mod Groups
pub mod Keeping
pub mod Leaves
pub mod Renaming
pub mod Shallow
pub mod Trees
