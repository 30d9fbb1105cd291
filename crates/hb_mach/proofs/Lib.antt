pub mod FetchLaws
pub mod KeepsLaws
pub mod LittleLaws
pub mod PortLaws
pub mod RunLaws
pub mod RunningLaws
pub mod WaitingLaws
