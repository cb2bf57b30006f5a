pub mod Reader
pub mod Calls
pub mod Exprs
pub mod Stmts
pub mod Nests
pub mod Script
pub mod Answer
