pub mod Each
pub mod Widths
