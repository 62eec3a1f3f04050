mod Sweeping
mod Knowns
