-- Definitions that the contracts of the steps on totals cite.

pub mod Row
