pub mod Bits
pub mod Formats
pub mod InRange
pub mod Coding
pub mod Arithmetic
