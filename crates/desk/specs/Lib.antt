-- The call's records and answers in the model's words, and the serial sum as code makes it.
pub mod Records
pub mod Serial
