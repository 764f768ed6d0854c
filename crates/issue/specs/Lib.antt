pub mod Issuing
pub mod Inner
