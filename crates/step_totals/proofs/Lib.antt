-- The laws of totals that belong to no one function.

pub mod Rows
pub mod Placed
pub mod Walks
pub mod Effect
pub mod Given
