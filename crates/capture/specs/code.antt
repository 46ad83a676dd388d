-- What only the code needs.
pub mod Next
pub mod Survey
pub mod Writing
