-- What the proofs of several functions use.
pub mod Summing
pub mod Refused
pub mod Laws
