pub mod Breaks
pub mod Dependencies
pub mod Linked
pub mod Names
pub mod SearchOrder
