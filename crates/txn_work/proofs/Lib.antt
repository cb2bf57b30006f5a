mod Branches
mod Responding
mod Shown
