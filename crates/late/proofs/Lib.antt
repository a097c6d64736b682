-- Laws that the functions are proved with.
pub mod Rules
pub mod Result
