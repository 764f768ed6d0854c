pub mod Keyed
pub mod Tags
pub mod Walking
pub mod OneAnswer
