pub mod Octets
pub mod Ip
pub mod Hello
pub mod Packet
pub mod ReadBack
pub mod code
