-- Laws of the keys.
pub mod Keys
