mod Slots
mod Walk
mod MultiplyWalk
mod DivideWalk
pub mod Steps
