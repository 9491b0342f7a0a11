pub mod Cached
pub mod Conditions
pub mod MovedImage
pub mod Placed
pub mod Segments
pub mod Tables
