pub mod Linking
pub mod ChainLaws
pub mod OneAnswer
