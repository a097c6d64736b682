-- What the entry points give.
pub mod Entries
pub mod EntryTables
pub mod EntryBook
pub mod EntryTrial
pub mod EntryStore
pub mod EntryForecast
pub mod EntryEdits
