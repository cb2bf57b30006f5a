pub mod Jobs
pub mod Owned
