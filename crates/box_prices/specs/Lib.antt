-- What a box can learn of prices.

pub mod Learned
pub mod HiddenCases
