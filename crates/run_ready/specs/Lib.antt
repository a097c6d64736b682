-- The list of ready steps as code walks it.
pub mod Walk
pub mod Rows
