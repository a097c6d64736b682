-- Laws of the two sums.
pub mod Halves
