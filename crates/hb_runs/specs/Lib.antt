pub mod Outcome
pub mod Stepping
pub mod System
pub mod Law
pub mod Simulation
pub mod Inner
