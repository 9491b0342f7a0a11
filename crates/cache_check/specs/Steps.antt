-- What the proofs alone speak of: how the calls come to what the contracts of this crate promise.
pub mod Comparing
pub mod Extents
pub mod Faults
pub mod Files
pub mod Gaps
pub mod Matched
pub mod Moving
pub mod Pages
pub mod Sides
