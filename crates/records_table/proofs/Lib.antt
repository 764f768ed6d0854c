pub mod Ordering
pub mod Rows
pub mod Walks
pub mod TableLaws
pub mod OneTable
pub mod OneAnswer
