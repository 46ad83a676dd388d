pub mod Checksum
pub mod code
