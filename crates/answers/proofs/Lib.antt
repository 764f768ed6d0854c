pub mod Distinct
pub mod Named
pub mod OneAnswer
