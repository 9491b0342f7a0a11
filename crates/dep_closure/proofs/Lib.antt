pub mod LinkLaws
pub mod LinkedLaws
pub mod NameLaws
pub mod OrderLaws
pub mod PositionLaws
pub mod ResolveLaws
pub mod SearchLaws
pub mod VisitLaws
