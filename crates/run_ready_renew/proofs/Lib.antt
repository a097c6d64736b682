-- The laws that the proofs of this crate cite.

pub mod After
pub mod Changed
pub mod Place
