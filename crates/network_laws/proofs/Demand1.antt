-- ISOLATION-1 to ISOLATION-3: the proofs of demand 1, each file after those that it cites.
pub mod Frame
pub mod Refusals
pub mod Answers
pub mod Locality
pub mod Walked
pub mod Range
pub mod OwnCalls
pub mod Isolation
pub mod Class
pub mod Initialized
pub mod Alone
