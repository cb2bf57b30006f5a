pub mod Timers
pub mod Records
pub mod Rings
pub mod Levels
pub mod Wheels
