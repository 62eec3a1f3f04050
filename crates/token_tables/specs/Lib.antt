pub mod Kinds
pub mod Tables
pub mod Faults
pub mod Examination
pub mod Good
