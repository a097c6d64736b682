-- What lent tables hold.
pub mod Lent
