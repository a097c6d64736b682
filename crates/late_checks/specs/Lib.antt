-- What the calls of late bags decide before a word is written (02 §7).

pub mod Lent
pub mod Held
pub mod Named
pub mod Judged
pub mod Decided
pub mod Present
