pub mod Fixities
pub mod Reading
pub mod States
