-- What applying a step requires, and what its parts leave.
pub mod Apply
pub mod Kept
