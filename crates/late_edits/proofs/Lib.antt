-- Laws that the functions are proved with, and what the edited columns come to.

pub mod Moving
pub mod Columns
