-- What the proofs alone speak of: how the calls come to what the contracts of this crate promise.
pub mod Apart
pub mod Marks
pub mod Pieces
pub mod Reading
pub mod Shape
pub mod Thinning
