pub mod ApartLaws
mod FindingLaws
pub mod InfoLaws
pub mod LinkLaws
pub mod LinkedLaws
pub mod ListLaws
pub mod MadeLaws
mod MakeLaws
pub mod MappedLaws
mod MarkLaws
mod MovingLaws
mod OrderLaws
mod PageLaws
mod PieceLaws
mod ReadLaws
pub mod RefusedLaws
mod RisingLaws
mod RunLaws
mod SieveLaws
pub mod SixteenLaws
pub mod SizeLaws
mod SlideLaws
pub mod SoundLaws
mod ThinLaws
pub mod WordLaws
pub mod WriteLaws
