pub mod Tables
pub mod Queues
pub mod Held
pub mod Shown
