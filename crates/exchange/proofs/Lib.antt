pub mod HalfDelay
pub mod Steps
