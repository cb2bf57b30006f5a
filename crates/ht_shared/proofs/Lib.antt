mod Cells
pub mod Sharing
