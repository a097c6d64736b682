-- Laws of a box's tallies in order.
pub mod Packing
pub mod Twice
