-- The order of a run: the steps that it picks, told from the marks of steps done.
pub mod Order
