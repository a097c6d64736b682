-- What the proofs of several functions use.
pub mod Tested
pub mod Sizes
pub mod Standing
pub mod Refusals
