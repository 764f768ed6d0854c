pub mod Keys
pub mod Reading
pub mod Fields
pub mod Maps
pub mod Indexes
pub mod ReadMap
