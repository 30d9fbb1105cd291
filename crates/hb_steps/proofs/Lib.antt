pub mod AlikeLaws
pub mod SafeLaws
pub mod Examples
