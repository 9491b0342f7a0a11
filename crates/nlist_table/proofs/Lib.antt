pub mod ListLaws
pub mod NameLaws
pub mod CountLaws
pub mod SectionLaws
pub mod BreakLaws
pub mod SymbolLaws
pub mod KeptLaws
pub mod PieceLaws
