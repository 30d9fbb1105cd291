pub mod Names
pub mod Items
pub mod Form
pub mod Wrong
pub mod Meaning
pub mod Moves
