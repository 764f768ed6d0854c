pub mod RuleLaws
pub mod Meanings
pub mod OneAnswer
