-- What a fresh state's tables hold.
pub mod Fresh
