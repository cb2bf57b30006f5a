pub mod Closing
pub mod ClosedNames
pub mod ClosedFunctions
pub mod ClosedTrees
pub mod ClosedScripts
