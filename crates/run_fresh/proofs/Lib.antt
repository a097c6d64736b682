-- Laws of a fresh state's tables.
pub mod Made
