pub mod Places
pub mod Turns
pub mod Rooms
pub mod law
pub mod Trees
