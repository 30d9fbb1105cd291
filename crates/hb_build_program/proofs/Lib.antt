pub mod Counted
pub mod DeclarationsFound
pub mod InitsFound
pub mod Parsed
pub mod ParsedExpressions
pub mod PartsFound
pub mod ProgramLaws
