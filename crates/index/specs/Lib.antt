-- Definitions of the index of offers.
pub mod Index
pub mod Bags
pub mod Order
