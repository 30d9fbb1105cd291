pub mod Ends
pub mod Grammar
pub mod Lines
pub mod Scripts
