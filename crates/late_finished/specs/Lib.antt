-- Whether a state is the one that a finished run leaves: the tests of its tables.
pub mod Tests
pub mod Present
