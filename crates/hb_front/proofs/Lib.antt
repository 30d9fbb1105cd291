mod FaultLaws
pub mod OnceLaws
pub mod AloneLaws
mod RefusalLaws
