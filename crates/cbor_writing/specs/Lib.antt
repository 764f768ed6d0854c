pub mod Placing
pub mod Inner
