-- What the proofs of several functions use.
pub mod Holders
pub mod InJob
pub mod Owned
pub mod DueSteps
