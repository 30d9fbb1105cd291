pub mod Places
pub mod Follows
pub mod Law
pub mod Program
pub mod Examples
