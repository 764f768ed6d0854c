pub mod Tokens
pub mod Reading
pub mod Writing
pub mod Fields
