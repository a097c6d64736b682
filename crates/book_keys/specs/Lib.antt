-- Definitions of the keys that a box's tallies, offers and grocers are sorted by.
pub mod Keys
