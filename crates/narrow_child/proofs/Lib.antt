pub mod Child
pub mod OneAnswer
