-- Definitions of the tests on packed totals.
pub mod Fits
