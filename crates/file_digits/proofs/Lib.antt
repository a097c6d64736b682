-- Laws of the numbers of codes.
pub mod Digits
