pub mod Lent
pub mod OneAnswer
