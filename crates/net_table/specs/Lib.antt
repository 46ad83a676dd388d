pub mod Answer
pub mod Table
pub mod Tutor
pub mod Laws
