pub mod Putting
pub mod Going
pub mod Short
pub mod Whole
pub mod OneAnswer
pub mod Example
pub mod Numbers
