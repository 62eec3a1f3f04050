pub mod Faults
pub mod Examination
pub mod Tables
pub mod Leading
pub mod Means
pub mod Laws
