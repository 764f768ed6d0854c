pub mod OneAnswer
