pub mod Stands
pub mod Exchanging
