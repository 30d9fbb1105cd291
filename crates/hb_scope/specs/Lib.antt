pub mod Faults
pub mod Unbound
pub mod Twice
pub mod FirstRefusal
