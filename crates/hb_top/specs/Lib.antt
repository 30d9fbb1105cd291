pub mod World
pub mod Texts
pub mod Sources
pub mod Preparing
pub mod Steps
pub mod Executing
pub mod Answers
pub mod Headline
