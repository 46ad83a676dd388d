pub mod Steps
pub mod Arrival
