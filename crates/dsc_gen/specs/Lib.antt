pub mod Commands
pub mod Contents
pub mod Draws
pub mod Files
pub mod Split
pub mod Streams
