pub mod Spelling
pub mod Symbols
pub mod Kept
pub mod Moving
