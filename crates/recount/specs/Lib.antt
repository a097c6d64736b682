-- Which of several counts of one bag stands.
pub mod Recount
pub mod Keys
