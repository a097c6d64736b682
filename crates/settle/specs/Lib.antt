-- What is read of the input; the steps that a job has, told from words, and the run without choices.
pub mod Input
pub mod Due
