pub mod Accepting
pub mod Existing
pub mod Running
pub mod Law
