-- Trying the floor before moving boxes: rounds, idle rounds and the call.
pub mod Rounds
pub mod Trial
pub mod Cases
