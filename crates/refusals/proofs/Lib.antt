-- What callers need of the numbers of conditions.
pub mod Numbers
