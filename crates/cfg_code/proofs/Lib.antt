pub mod Places
pub mod Parts
pub mod Exprs
pub mod Stmts
pub mod Shapes
pub mod Safety
pub mod Closes
