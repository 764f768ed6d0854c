pub mod Littles
pub mod Ways
pub mod Runs
pub mod Fields
pub mod OneAnswer
