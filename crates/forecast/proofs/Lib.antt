-- What the parts of the forecast's calls come to.
pub mod Made
pub mod Moved
