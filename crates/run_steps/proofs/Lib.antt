-- The laws that the proofs of this crate cite.
pub mod Way
pub mod Offers
pub mod Looking
pub mod Turns
