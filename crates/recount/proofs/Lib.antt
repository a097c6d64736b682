-- The laws of the rule.
pub mod Recount
pub mod Keys
