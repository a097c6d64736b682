-- Definitions of the local matrix of a box.
pub mod Pack
pub mod Book
