-- The numbers of the step's answers, and what its parts require.
pub mod Answer
pub mod Lent
