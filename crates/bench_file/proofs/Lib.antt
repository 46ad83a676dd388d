pub mod Each
pub mod Marks
pub mod Fits
