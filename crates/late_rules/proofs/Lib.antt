-- The laws of late and withdrawn bags.
pub mod Left
pub mod Words
pub mod Edited
pub mod Entries
pub mod Counts
pub mod Present
pub mod Amounts
pub mod Places
pub mod Found
pub mod Add
pub mod Withdraw
pub mod Less
pub mod Undo
pub mod Laws
pub mod Cases
