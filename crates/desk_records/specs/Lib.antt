-- What the desk looks at before any record, and what it keeps of each.
pub mod Head
pub mod Rows
