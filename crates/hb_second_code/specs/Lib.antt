pub mod Rules
pub mod Lowering
