pub mod BitLaws
pub mod Comparing
pub mod TextLaws
pub mod OneAnswer
