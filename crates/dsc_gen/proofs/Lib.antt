mod CommandLaws
mod DrawLaws
mod ExportLaws
pub mod FileLaws
mod ListingLaws
mod OrderLaws
mod SmallLaws
mod SplitLaws
mod WordLaws
mod WrittenLaws
