pub mod Groups
pub mod Writings
pub mod OneAnswer
