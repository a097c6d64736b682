-- Late bags and withdrawn ones (02 §7): the edited list of tallies, the two calls, their tables where they are only read, what they come to, and cases.

pub mod Edit
pub mod Late
pub mod Lent
pub mod Finished
pub mod Laws
pub mod Cases
