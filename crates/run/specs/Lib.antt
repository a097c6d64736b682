-- What the run answers, and what its parts leave.
pub mod Run
