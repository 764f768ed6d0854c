pub mod Bits
pub mod Prefixes
pub mod Reading
