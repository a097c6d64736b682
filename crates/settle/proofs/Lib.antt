-- Laws that the functions are proved with.
pub mod Enough
pub mod Known
pub mod Steps
pub mod Run
pub mod Texts
