-- What the three calls of the host give.
pub mod Host
