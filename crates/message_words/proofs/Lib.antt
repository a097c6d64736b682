-- What the proofs of several functions use.
pub mod Sending
pub mod MessageLaws
pub mod OfJob
