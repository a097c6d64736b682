-- The proofs of the demands.

pub mod Book
pub mod Tables
pub mod Desk
pub mod Host
pub mod Demand1
pub mod Demand2
pub mod Demand3
pub mod Packed
pub mod Calls
pub mod Lists
pub mod Late
pub mod Trial
pub mod BoxPrices
pub mod Forecast
pub mod CycleStore
pub mod Ascii
pub mod Settle
pub mod Cases
