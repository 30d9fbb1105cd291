pub mod Puts
pub mod Sorting
pub mod Residuals
pub mod Back
pub mod Forth
pub mod Exacting
pub mod Ending
pub mod Runs
