pub mod Run
pub mod Running
pub mod Soundness
pub mod State
pub mod Table
pub mod Turns
pub mod Waiting
