-- Laws of bytes that are put into a buffer.
pub mod Puts
