pub mod Found
pub mod Decoding
pub mod OneAnswer
pub mod Numbers
