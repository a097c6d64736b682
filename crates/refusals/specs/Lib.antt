-- The numbers of the conditions, and of answers.
pub mod Numbers
