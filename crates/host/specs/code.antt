pub mod Walks
pub mod Returned
pub mod Held
