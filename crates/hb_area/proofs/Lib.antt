pub mod CellSteps
