pub mod ByteLaws
pub mod BreakLaws
pub mod RecordLaws
pub mod TableLaws
