pub mod JobMoves
pub mod Jobs
