pub mod Roles
pub mod Stacks
pub mod Views
pub mod Rules
pub mod Profile
pub mod Laid
pub mod Drafts
pub mod Outcomes
