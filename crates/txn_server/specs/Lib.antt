pub mod Rows
pub mod Timers
pub mod After
pub mod Runs
