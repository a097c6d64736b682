-- Definitions of a box's tallies in order.
pub mod Twice
