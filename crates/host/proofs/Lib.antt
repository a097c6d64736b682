-- What the three calls give, from what the calls under them give.
pub mod Gives
