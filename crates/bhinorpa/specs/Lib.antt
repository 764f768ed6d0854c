pub mod Allowed
pub mod NewTokens
pub mod Verdicts
pub mod Demands
