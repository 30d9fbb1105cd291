pub mod ExpressionSteps
pub mod Parsed
pub mod Taking
