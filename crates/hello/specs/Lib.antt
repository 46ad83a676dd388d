pub mod Returned
pub mod Recovered
pub mod Ntp
pub mod Nets
pub mod Contract
