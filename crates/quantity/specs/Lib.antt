pub mod Quantity
pub mod Words
