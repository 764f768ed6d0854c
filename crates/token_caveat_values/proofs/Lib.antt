pub mod OneAnswer
pub mod Maps
pub mod Ends
