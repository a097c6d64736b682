-- Laws of the conditions of a forecast's calls.

pub mod Tested
pub mod Asked
pub mod Words
pub mod Late
pub mod Refused
pub mod Passed
