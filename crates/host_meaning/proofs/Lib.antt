mod Kept
mod Funds
