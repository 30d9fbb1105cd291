pub mod State
pub mod Meaning
pub mod Rules
pub mod Weights
