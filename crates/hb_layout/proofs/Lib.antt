pub mod ViewLaws
pub mod StackLaws
pub mod DraftLaws
pub mod LaidLaws
pub mod ProfileLaws
pub mod CountLaws
pub mod GivenLaws
pub mod Laws
