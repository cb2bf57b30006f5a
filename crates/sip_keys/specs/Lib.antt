pub mod Keys
pub mod Branches
