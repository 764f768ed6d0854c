pub mod Sizes
pub mod Carrying
pub mod OneAnswer
