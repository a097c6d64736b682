-- What the steps and a fresh state do to tables.

pub mod Steps
pub mod Fresh
