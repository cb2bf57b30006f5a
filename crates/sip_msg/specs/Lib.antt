pub mod Start
pub mod Fields
pub mod Values
pub mod Places
pub mod Table
pub mod Basis
pub mod StartGrammar
