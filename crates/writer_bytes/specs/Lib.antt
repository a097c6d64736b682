-- Bytes that are put into a buffer.
pub mod Puts
