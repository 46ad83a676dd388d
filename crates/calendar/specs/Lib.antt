pub mod Date
pub mod Months
pub mod Steps
