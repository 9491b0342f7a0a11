pub mod Chains
pub mod Info
pub mod Linked
pub mod Making
pub mod Steps
