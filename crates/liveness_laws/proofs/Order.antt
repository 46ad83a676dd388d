-- LIVE-3: what the proofs about rounds in any order have, each file after those that it cites.
pub mod Entry
pub mod Cables
pub mod Believed
pub mod Sends
pub mod Worlds
pub mod Law
pub mod Example
pub mod Newest
