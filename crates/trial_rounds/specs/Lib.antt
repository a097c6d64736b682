-- Rounds of steps, as code takes them.
pub mod Taken
