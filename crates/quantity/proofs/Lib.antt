pub mod Ints
pub mod Wrap
