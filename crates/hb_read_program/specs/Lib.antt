pub mod Rules
pub mod Frames
pub mod Sets
pub mod Running
pub mod RunningCodes
