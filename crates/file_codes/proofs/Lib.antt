-- Lemmas on codes that are copied.
pub mod Codes
