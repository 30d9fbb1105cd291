pub mod Building
pub mod PatternSteps
pub mod TypeSteps
pub mod Unnumbered
