-- LIVE-4: what the proofs about silence have, each file after those that it cites.
pub mod Tables
pub mod TabledWorlds
pub mod Entry
pub mod Invariant
pub mod Calls
pub mod Walks
pub mod Sends
pub mod Worlds
pub mod Epochs
pub mod Unreported
pub mod Example
pub mod UnreportedExample
