pub mod Within
pub mod Bytes
pub mod Names
pub mod Written
pub mod Senders
pub mod Tokens
