pub mod Binds
pub mod Clash
pub mod Faults
pub mod Opcodes
pub mod Records
pub mod Steps
pub mod Weak
