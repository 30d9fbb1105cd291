pub mod DeclarationSteps
pub mod MemberSteps
pub mod ParsedProgram
pub mod States
