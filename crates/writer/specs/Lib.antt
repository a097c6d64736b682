-- The writer of the job file: blocks made of records, and the answer.
pub mod Bodies
pub mod Ready
pub mod Outcome
