pub mod Openings
pub mod TurnAnswers
pub mod TurnSteps
