pub mod Marked
pub mod KeyOrder
