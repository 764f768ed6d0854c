pub mod Defects
pub mod Majors
pub mod Counts
pub mod Heads
pub mod Reading
