pub mod Flat
pub mod Code
pub mod Machine
pub mod Follows
pub mod Sound
pub mod Safe
pub mod Closed
