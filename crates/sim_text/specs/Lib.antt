pub mod Scenario
pub mod Draft
pub mod Trace
pub mod Pieces
