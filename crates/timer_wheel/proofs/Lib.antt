pub mod Runs
pub mod Rings
pub mod Moments
pub mod Words
pub mod Writes
pub mod Walks
pub mod Placed
