pub mod Ready
pub mod Walking
