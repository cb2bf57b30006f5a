pub mod Digits
pub mod Addresses
