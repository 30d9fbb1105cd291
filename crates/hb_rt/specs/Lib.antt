pub mod Routine
pub mod Multiply
pub mod Divide
