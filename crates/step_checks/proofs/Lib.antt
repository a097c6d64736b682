-- What the tests are in the model.
pub mod Late
pub mod Tested
pub mod Asked
pub mod Finished
