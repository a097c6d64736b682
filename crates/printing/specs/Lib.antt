-- What `settle` prints, whole cents, and what an accepted file gives.
pub mod Printed
pub mod Accepted
pub mod Cents
