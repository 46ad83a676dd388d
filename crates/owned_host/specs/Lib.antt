pub mod Held
pub mod Program
