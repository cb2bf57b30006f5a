pub mod Runs
pub mod Lists
pub mod Counts
pub mod Records
