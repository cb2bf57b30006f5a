pub mod Steps
pub mod Pieces
pub mod Grown
pub mod Lengths
pub mod Once
pub mod Order
pub mod Swept
