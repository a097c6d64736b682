-- Laws of what is printed, and of an accepted file.
pub mod Digits
pub mod ListText
pub mod Owed
pub mod OneJob
pub mod Accepted
pub mod Blank
pub mod Long
pub mod Rounding
