pub mod Loops
pub mod FieldLemmas
pub mod PortLemmas
pub mod ImageLemmas
