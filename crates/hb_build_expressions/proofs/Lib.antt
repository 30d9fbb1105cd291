pub mod ExpressionLaws
pub mod ExpressionsFound
pub mod RunLaws
pub mod TakingLaws
