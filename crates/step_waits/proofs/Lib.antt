-- What the proofs of several functions use.
pub mod Waiting
pub mod Told
