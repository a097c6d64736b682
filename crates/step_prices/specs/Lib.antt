-- Steps 1 and 3 on the price tables.
pub mod Prices
