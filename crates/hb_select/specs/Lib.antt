pub mod Code
pub mod Weights
pub mod Law
