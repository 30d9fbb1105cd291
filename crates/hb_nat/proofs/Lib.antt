pub mod Answering
pub mod Products
pub mod Sums
pub mod Powers
