pub mod Rows
pub mod After
pub mod Runs
