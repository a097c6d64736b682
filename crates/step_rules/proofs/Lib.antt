-- The laws that the proofs of this crate cite.

pub mod Marked
pub mod Bits
pub mod ByKind
pub mod Ways
pub mod InModel
