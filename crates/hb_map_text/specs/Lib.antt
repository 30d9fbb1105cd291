pub mod MapLines
pub mod Pieces
