-- The job file: codes, jobs, blocks, files, refusals, and the lent tables of reader and writer.

pub mod First
pub mod Bytes
pub mod Codes
pub mod Job
pub mod Blocks
pub mod File
pub mod Refusals
pub mod Same
pub mod Rearranged
pub mod Tables
pub mod Lent
pub mod PlanCases
