-- Laws of a file's bytes by place, and of the 32 bits of a count.
pub mod After
pub mod Signs
