pub mod Length
pub mod Composition
