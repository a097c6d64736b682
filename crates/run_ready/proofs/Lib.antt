-- The laws that the proofs of this crate cite.

pub mod Walking
pub mod InModel
pub mod Rows
