pub mod Compression
pub mod Order
