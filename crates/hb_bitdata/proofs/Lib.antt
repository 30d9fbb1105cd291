pub mod LayingSteps
pub mod JunkSteps
pub mod FieldSteps
