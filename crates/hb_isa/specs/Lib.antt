pub mod Memory
pub mod State
pub mod Table
pub mod Run
pub mod Touches
pub mod Meaning
