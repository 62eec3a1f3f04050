mod Leadings
mod Makings
