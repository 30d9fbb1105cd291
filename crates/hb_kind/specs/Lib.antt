pub mod TypeNames
pub mod Kinding
pub mod Wholes
pub mod Least
pub mod KindFault
pub mod Containing
pub mod Places
