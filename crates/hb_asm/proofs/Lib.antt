mod FieldLemmas
mod InstrBack
mod WordReads
pub mod Coding
