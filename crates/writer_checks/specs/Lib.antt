-- What lent tables hold, and the numbers of their codes.
pub mod Rows
pub mod Held
