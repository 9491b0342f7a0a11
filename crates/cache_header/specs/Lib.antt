pub mod Findings
pub mod Identifier
pub mod Paths
pub mod Reading
pub mod Records
pub mod Spelling
pub mod Widths
