-- Laws of the moves of a forecast.

pub mod Cleared
pub mod OwnValues
