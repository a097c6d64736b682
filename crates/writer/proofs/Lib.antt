-- Laws that the proofs of the writer cite.
pub mod Blocks
pub mod Rows
pub mod Made
pub mod Written
