pub mod Numbers
pub mod Values
pub mod Kinds
pub mod Matching
