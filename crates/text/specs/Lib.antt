pub mod Numerals
pub mod Words
pub mod Numbers
pub mod Text
pub mod Answers
pub mod Back
pub mod Pieces
pub mod code
