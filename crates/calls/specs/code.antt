pub mod Planned
pub mod Places
