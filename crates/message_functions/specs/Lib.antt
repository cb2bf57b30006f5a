pub mod Edits
pub mod Ways
