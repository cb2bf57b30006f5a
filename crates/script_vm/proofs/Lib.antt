pub mod Leaves
pub mod Measure
pub mod Goes
pub mod Plays
pub mod Matches
pub mod Stacks
