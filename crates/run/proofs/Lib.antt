-- The laws that the proofs of this crate cite.
pub mod Ends
pub mod Done
pub mod Behind
