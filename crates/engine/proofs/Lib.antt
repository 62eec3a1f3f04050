mod Closing
mod Finding
mod Pigeons
mod Exists
mod Paths
mod Steps
mod Histories
mod Laws
