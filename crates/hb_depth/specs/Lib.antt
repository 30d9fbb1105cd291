pub mod Forms
pub mod Depth
pub mod Written
pub mod Shapes
pub mod Marking
pub mod Walking
