-- Definitions of the index of offers and its look-up.
pub mod Lookup
pub mod Digits
