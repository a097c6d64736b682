-- Laws that the functions are proved with.
pub mod Amounts
pub mod Taking
