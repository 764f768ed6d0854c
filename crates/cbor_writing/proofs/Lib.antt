pub mod PlacingLaws
pub mod Forms
pub mod BigLoop
pub mod Writers
pub mod OneAnswer
