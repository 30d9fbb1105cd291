pub mod Facts
pub mod Improving
pub mod ImprovingLaws
