pub mod Texts
pub mod Lays
