pub mod LiteralLaws
pub mod CommentLaws
pub mod TokensLaws
pub mod SourceLaws
