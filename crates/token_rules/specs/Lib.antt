pub mod Relation
pub mod Showing
pub mod Follows
pub mod Runs
pub mod Ruled
pub mod Retire
