pub mod Widths
pub mod Places
pub mod Cubes
pub mod Layouts
pub mod PlacesLaws
pub mod Fields
pub mod Junk
