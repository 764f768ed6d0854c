pub mod Pieces
pub mod Whole
pub mod OneAnswer
