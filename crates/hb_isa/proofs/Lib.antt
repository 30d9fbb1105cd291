pub mod InputLaws
pub mod KeepsLaws
pub mod MemoryLaws
pub mod RunLaws
pub mod TouchLaws
pub mod TurnLaws
