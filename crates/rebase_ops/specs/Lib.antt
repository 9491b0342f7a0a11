pub mod Opcodes
pub mod Rebases
pub mod Steps
pub mod Writing
