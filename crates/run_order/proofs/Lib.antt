-- The laws that the proofs of this crate cite.
pub mod Pick
pub mod Found
pub mod Begun
pub mod SoFar
pub mod Few
