pub mod While
pub mod Midnight
pub mod Readings
pub mod Bounds
pub mod Turns
pub mod Range
pub mod Slew
