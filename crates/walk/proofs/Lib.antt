pub mod Outcomes
pub mod Work
pub mod Walked
pub mod HostReply
pub mod Holding
pub mod Passed
