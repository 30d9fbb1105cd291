mod NamesLaws
pub mod FixedLaws
