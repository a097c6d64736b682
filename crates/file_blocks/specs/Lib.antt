-- What the checks of a file go by: the sizes that its header says, what is due in a block, and the refusals before 7, 8 and 9; and files that are whole.
pub mod Kinds
pub mod Due
pub mod Shape
pub mod Fills
pub mod Copied
pub mod Said
pub mod Sound
pub mod ByPlace
