pub mod Stretch
pub mod Counting
