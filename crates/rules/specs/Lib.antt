pub mod Holding
pub mod Judging
