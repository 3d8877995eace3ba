-- The theorems that rest on definitions which must-fail edits change. Each stands under the name of the file of specs/ that has the rest.
pub mod Arrivals
pub mod Families
pub mod Filling
pub mod Leaves
pub mod Renaming
pub mod Shallow
pub mod Trees
