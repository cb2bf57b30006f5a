pub mod ValuedTrees
pub mod ValuedScripts
mod Firsts
mod Blocks
pub mod Trees
pub mod Targets
pub mod Statements
mod Readings
mod Makings
mod Judging
