-- What the trial answers.
pub mod Trial
