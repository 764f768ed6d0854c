pub mod Requests
pub mod Reading
pub mod Inner
