pub mod Asking
pub mod Lending
pub mod Rows
pub mod Running
pub mod Restoring
