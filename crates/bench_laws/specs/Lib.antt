pub mod Laws
pub mod Calls
pub mod OnTime
pub mod Bound
pub mod Example
pub mod Exchange
