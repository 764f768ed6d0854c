pub mod Turning
pub mod Within
pub mod Picking
pub mod Rounding
pub mod OneAnswer
