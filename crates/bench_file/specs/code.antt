-- What only the code needs.
pub mod Sections
