-- Lemmas on columns of tables.
pub mod Filling
