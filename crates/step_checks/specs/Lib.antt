-- What a step would leave is in range, and what is asked of a request.

pub mod Fits
pub mod Request
