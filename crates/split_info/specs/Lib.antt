pub mod Overlap
pub mod Reading
pub mod References
pub mod Split
pub mod Stream
