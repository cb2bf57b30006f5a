pub mod Talk
pub mod Course
pub mod Items
