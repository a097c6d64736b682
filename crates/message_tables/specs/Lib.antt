-- What the call gives, and the sums over its tables.
pub mod Sums
pub mod Answers
