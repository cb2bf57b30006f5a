pub mod Balance
pub mod Runs
