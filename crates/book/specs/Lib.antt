pub mod Listing
pub mod Refusals
pub mod Faults
pub mod Listed
pub mod Laws
