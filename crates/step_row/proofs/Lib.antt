-- Laws of the words of a box.
pub mod Rows
pub mod Ranges
