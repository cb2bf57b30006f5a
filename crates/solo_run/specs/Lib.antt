pub mod Objects
pub mod Solo
pub mod Running
