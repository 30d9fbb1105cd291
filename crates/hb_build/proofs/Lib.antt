pub mod BuildingLaws
pub mod PatternLaws
pub mod PatternsFound
pub mod PatternsOff
pub mod PatternsOnly
pub mod TypeLaws
pub mod TypesFound
pub mod TypesOnly
