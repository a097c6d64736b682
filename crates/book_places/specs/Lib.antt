-- Local grocers and the places of packed totals: definitions.
pub mod Lists
pub mod Spots
pub mod Boxes
