pub mod Basis
pub mod Tabs
pub mod Same
pub mod Limits
pub mod Bytes
