pub mod Words
pub mod Loops
pub mod Fours
pub mod Blocks
