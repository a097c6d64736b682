-- Text that is put into a buffer.
pub mod Puts
