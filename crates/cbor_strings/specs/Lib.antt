pub mod Paths
pub mod Strings
pub mod Segments
pub mod Inner
pub mod Reading
