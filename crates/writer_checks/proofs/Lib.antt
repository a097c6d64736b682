-- Laws that the proofs of the checks cite.
pub mod Naming
pub mod Joining
