pub mod AcceptLaws
pub mod AnyLaws
pub mod CountLaws
pub mod OverlapLaws
pub mod PartLaws
pub mod ReadLaws
pub mod SoundSections
pub mod WordLaws
