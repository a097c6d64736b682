-- What the steps of an order require and leave.
pub mod All
