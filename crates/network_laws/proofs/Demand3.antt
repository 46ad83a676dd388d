-- ROOM-9: the proofs of demand 3, each file after those that it cites.
pub mod Near
pub mod Invariant
pub mod Outcomes
pub mod Nodes
pub mod Sending
pub mod Measured
pub mod Arrival
pub mod Walks
pub mod Histories
pub mod NeverAlive
pub mod MarkedOnce
pub mod Shared
pub mod TwoNodes
pub mod Alive
pub mod Sharp
