pub mod ClosureLemmas
pub mod MadeLemmas
pub mod TableLemmas
pub mod KindLemmas
pub mod PutLemmas
pub mod NormalLemmas
pub mod UseLemmas
pub mod UnifyLemmas
