pub mod Caveats
pub mod Reading
pub mod Values
pub mod Fields
