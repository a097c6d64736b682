-- Definitions that the contracts of spans cite.
pub mod Credit
