pub mod Tries
pub mod Every
pub mod Tried
