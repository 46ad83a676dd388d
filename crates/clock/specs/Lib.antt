pub mod While
pub mod Midnight
pub mod Clock
pub mod Crystal
pub mod LineClock
pub mod Slew
pub mod code
