pub mod Utf8Laws
pub mod ItemReads
pub mod OneAnswer
pub mod TreeReads
pub mod TreesRead
pub mod OneTree
pub mod Inside
