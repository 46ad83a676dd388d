-- What only the code needs.
pub mod Asks
pub mod Sends
pub mod Takes
pub mod Returned
pub mod Turns
pub mod Sets
