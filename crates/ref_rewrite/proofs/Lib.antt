pub mod BoundLaws
pub mod ChainedLaws
pub mod CopyLaws
pub mod EditFits
pub mod FitLaws
pub mod FollowingLaws
pub mod FollowsLaws
pub mod HeaderLaws
pub mod HomeLaws
pub mod LeadLaws
pub mod MappingLaws
pub mod OrderLaws
pub mod PageLaws
pub mod PlacedLaws
pub mod PlanLaws
pub mod ReadLaws
pub mod ReferenceLaws
pub mod RewrittenLaws
mod RunLaws
pub mod SetLaws
pub mod SpacedLaws
mod SpanFacts
mod SpanLaws
