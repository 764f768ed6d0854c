pub mod FittingLaws
pub mod SegmentLaws
pub mod FittingCases
pub mod Walks
pub mod OneAnswer
