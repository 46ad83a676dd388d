pub mod Moved
pub mod SameDay
pub mod Along
pub mod NeverBack
pub mod Worn
pub mod Slewing
pub mod Wearing
pub mod Back
