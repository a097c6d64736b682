-- The conditions of a forecast's calls, as inner functions give them.

pub mod Sizes
pub mod Rules
pub mod Decided
