pub mod Back
pub mod Values
