-- Proofs about the entry points.
pub mod Fields
pub mod Told
pub mod Forecast
pub mod Edits
