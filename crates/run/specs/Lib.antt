pub mod Standing
pub mod Answers
pub mod Runs
pub mod Exchanges
