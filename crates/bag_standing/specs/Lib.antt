-- Definitions of columns of tables.
pub mod Columns
