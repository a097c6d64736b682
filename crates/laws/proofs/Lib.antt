-- The laws, each stated once.
pub mod Bools
pub mod Sums
pub mod Below
pub mod Listed
pub mod Ascending
pub mod Tables
pub mod Fills
pub mod Entries
pub mod Signed
pub mod Signs
pub mod Masks
pub mod Rows
pub mod Checks
pub mod Loops
