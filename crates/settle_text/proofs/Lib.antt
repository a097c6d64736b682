-- Laws that the functions are proved with.
pub mod Puts
pub mod Decimals
pub mod Grocers
