-- What a trial comes to.
pub mod Rounds
pub mod Ends
