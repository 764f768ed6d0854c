pub mod Sizes
pub mod Fresh
pub mod OneAnswer
