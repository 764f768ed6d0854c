pub mod Blocks
pub mod LowFirst
pub mod FourBytes
pub mod OneAnswer
