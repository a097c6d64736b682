-- Laws of spans.
pub mod Laws
pub mod Statements
