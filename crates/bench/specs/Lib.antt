pub mod Answer
pub mod Bench
pub mod Slots
pub mod Guard
pub mod Event
pub mod Run
pub mod code
