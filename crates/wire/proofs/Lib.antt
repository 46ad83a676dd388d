pub mod Parts
pub mod Parsing
pub mod Messages
pub mod Stores
pub mod Sealing
pub mod ReadBack
