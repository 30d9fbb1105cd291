pub mod FixityLaws
pub mod GroupingLaws
