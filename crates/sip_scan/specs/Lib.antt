pub mod Lines
pub mod Field
pub mod Head
pub mod Grammar
