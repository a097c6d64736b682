-- The records taken one by one, and the answer from them.
pub mod Fold
pub mod Settling
