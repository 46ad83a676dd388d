pub mod Put
pub mod Scan
pub mod Reading
pub mod Turns
pub mod Pieces
