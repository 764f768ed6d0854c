pub mod Values
pub mod Maps
pub mod Fields
