pub mod Halves
mod Hashing
pub mod OneAnswer
