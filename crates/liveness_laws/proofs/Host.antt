-- LIVE-2, LIVE-3: what the proofs about both kinds of rounds have in common, each file after those that it cites.
pub mod State
pub mod Calls
pub mod Arrivals
pub mod Walks
pub mod Flags
pub mod Turns
pub mod Start
