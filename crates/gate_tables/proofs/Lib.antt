pub mod FillTurn
