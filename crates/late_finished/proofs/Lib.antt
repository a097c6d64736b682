-- Laws that the functions are proved with, and that they tell 30.
pub mod Amounts
pub mod Plain
pub mod Joined
pub mod Present
