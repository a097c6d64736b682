-- The tables of tallies, edited (02 §7).

pub mod Columns
