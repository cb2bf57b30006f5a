pub mod Asking
pub mod Running
pub mod Measure
pub mod Play
