pub mod Apart
pub mod Layouts
pub mod Parts
pub mod Places
pub mod Rooms
