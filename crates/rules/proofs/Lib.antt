-- The theorems that rest on definitions which must-fail edits change. Each stands under the name of the file of specs/ that has the rest.
pub mod Cases
pub mod Nets
