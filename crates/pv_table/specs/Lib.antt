pub mod Avps
pub mod Facts
pub mod UriParts
pub mod Slices
pub mod Fields
pub mod Reading
pub mod Writing
