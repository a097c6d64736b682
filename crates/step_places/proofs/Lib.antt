-- The laws that the proofs of this crate cite.
pub mod Places
pub mod Walking
pub mod Sends
pub mod Left
pub mod Orders
pub mod Plain
pub mod Message
