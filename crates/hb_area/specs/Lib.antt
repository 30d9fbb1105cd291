pub mod Sizes
pub mod Structs
pub mod Placing
pub mod Cells
pub mod Ports
pub mod PlacingLaws
