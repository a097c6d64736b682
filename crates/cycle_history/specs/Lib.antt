-- Definitions of the store of thirteen cycles (02 §14).
pub mod Store
pub mod History
pub mod StoreCases
