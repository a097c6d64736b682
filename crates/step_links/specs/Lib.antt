-- Entries linked by key.
pub mod Links
