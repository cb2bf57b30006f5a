mod Names
mod Endings
mod Paths
mod Semicolons
mod Standing
