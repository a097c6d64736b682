-- Definitions of the reader.
pub mod Answer
pub mod Lent
pub mod Filled
