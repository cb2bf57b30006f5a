pub mod Responses
pub mod Preference
pub mod Choices
pub mod Histories
pub mod Decisions
