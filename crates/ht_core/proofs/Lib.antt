pub mod Items
pub mod Places
pub mod Changes
pub mod Outcomes
