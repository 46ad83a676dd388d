pub mod Months
pub mod Days
pub mod Stepping
