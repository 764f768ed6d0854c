pub mod Scopes
pub mod Methods
pub mod Reading
pub mod Fields
