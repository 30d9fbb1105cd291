pub mod Codes
pub mod Combined
pub mod Nodes
pub mod Readers
pub mod Worths
pub mod Exactly
