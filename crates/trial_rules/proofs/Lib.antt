-- What every trial comes to, and its examples.
pub mod Preferences
pub mod Rounds
pub mod Trial
pub mod Cases
