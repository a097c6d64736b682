-- Conditions 22 to 26, told from words of one bit for each box and the steps done.
pub mod Rules
