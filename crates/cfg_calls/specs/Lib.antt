pub mod Names
pub mod Following
pub mod Layers
pub mod Heads
pub mod Calls
