pub mod Nodes
pub mod Scopes
pub mod Uses
pub mod Things
pub mod Kept
