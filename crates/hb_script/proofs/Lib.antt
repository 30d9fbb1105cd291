pub mod GrammarLemmas
pub mod InputLemmas
pub mod LineLemmas
pub mod ReadingLemmas
pub mod ScriptLemmas
pub mod ValueLemmas
pub mod WordLemmas
