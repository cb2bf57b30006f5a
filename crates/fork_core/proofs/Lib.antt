pub mod Finals
pub mod Standing
pub mod Numbers
pub mod Best
pub mod Members
pub mod Decided
pub mod Failing
pub mod GoingOn
