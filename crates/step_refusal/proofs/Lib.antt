-- What the proofs of several functions use, and what the tests are in the model.
pub mod Extra
pub mod Later
pub mod Refused
pub mod Told
pub mod Base
pub mod Priced
pub mod Totalled
