pub mod Front
pub mod Ends
