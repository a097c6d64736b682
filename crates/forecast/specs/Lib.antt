-- The numbers of the forecast's answers.
pub mod Answer
