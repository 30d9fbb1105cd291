pub mod SyntaxLaws
pub mod ParsingLaws
mod ReadingLaws
