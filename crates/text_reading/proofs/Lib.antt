pub mod Letters
pub mod Judging
pub mod Filling
pub mod Decoding
pub mod TextLaws
pub mod OneAnswer
