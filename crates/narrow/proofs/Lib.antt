pub mod Narrowed
pub mod OneAnswer
