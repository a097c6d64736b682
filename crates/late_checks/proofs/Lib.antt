-- Laws that the functions are proved with.

pub mod Held
pub mod First
pub mod Codes
pub mod Places
pub mod Decided
pub mod Early
