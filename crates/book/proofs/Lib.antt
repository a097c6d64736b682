-- Laws of the local matrix.
pub mod Packing
pub mod Modelled
pub mod Ready
pub mod Bounds
pub mod Booking
