-- Definitions that every other crate's definitions are written with.
pub mod Below
pub mod Listed
pub mod Tables
pub mod Masks
pub mod Checks
pub mod Limits
pub mod Lists
pub mod Lent
