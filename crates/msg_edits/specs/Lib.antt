pub mod Edited
pub mod Change
pub mod Causes
pub mod Writing
pub mod Laws
