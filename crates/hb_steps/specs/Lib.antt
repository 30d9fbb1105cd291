pub mod Tree
pub mod Relations
