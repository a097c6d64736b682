-- The laws that the proofs of this crate cite.
pub mod Likes
pub mod Marks
pub mod Turns
pub mod All
pub mod Idle
pub mod Taken
