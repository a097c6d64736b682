-- Late bags and withdrawn ones: the two calls as their contracts name them.
pub mod Calls
pub mod Lent
