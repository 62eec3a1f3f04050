pub mod Meaning
pub mod Bounds
pub mod Refusals
pub mod Outcomes
pub mod Counts
pub mod Examining
