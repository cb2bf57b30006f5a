mod Names
mod Lines
mod Reading
pub mod Once
mod Drafts
mod Sound
mod Pieces
