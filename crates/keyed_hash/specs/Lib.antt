pub mod Tree
pub mod KeyedHash
pub mod Fits
