pub mod Both
pub mod CheckAnswers
pub mod Comparing
