pub mod Growth
pub mod RulesLaws
