pub mod Numbering
mod FunctionTable
mod Literals
pub mod Follows
pub mod Expansions
pub mod Valued
pub mod ValuedNames
pub mod ValuedFunctions
mod Heads
mod HeadTests
