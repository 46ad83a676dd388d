-- LIVE-2: what the proofs about rounds have, each file after those that it cites.
pub mod Entry
pub mod Heard
pub mod Tables
pub mod Believed
pub mod Sends
pub mod Worlds
pub mod Law
pub mod Example
