-- The words of a box.
pub mod Row
