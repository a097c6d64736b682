-- Laws of entries linked by key.
pub mod Walks
