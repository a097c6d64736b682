-- Laws of one step applied to the lent tables.
pub mod Ranges
pub mod Keys
pub mod Given
pub mod Sides
pub mod Parts
pub mod Moved
pub mod Found
