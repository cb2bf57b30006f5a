pub mod Reasons
pub mod Texts
pub mod Desks
pub mod Outboxes
