-- Its proof, and that the cases hold.

pub mod Learned
pub mod HiddenCases
