-- The laws of the sort.
pub mod Sorting
pub mod Digits
pub mod Topping
pub mod Beside
pub mod Loose
pub mod Taken
