pub mod Nodes
pub mod Sorts
pub mod Heads
pub mod Starts
pub mod Moves
pub mod Taking
pub mod Exactly
