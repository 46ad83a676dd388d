pub mod Formulas
pub mod HalfDelay
pub mod Needed
