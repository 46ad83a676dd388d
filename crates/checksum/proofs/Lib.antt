pub mod Folding
pub mod Words
pub mod LowFirst
