-- The definitions that the contracts of this crate cite, beside those of the model.
pub mod Masks
pub mod Due
