pub mod Tokens
pub mod Types
pub mod Patterns
pub mod Expressions
pub mod Declarations
pub mod Reading
