-- The theory of the store.
pub mod Split
pub mod Ages
pub mod Kept
pub mod StoreCases
