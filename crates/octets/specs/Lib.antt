pub mod Octets
pub mod ReadBack
