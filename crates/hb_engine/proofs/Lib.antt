pub mod EngineLaw
pub mod Through
pub mod Model
