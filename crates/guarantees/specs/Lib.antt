-- The demands as a reader meets them. Each statement is about the definitions that the public calls' contracts cite.

pub mod Demand1
pub mod Demand2
pub mod Demand3
pub mod Packed
pub mod Calls
pub mod Lists
pub mod Late
pub mod Trial
pub mod BoxPrices
pub mod Forecast
pub mod CycleStore
pub mod Settle
pub mod Cases
