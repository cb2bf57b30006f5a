pub mod Accept
pub mod Commands
pub mod Endings
