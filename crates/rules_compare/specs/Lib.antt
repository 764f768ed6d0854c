pub mod Comparing
pub mod Fitting
pub mod FittingSegments
