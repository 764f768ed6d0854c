pub mod Utf8
pub mod Reading
pub mod Trees
pub mod Lists
