pub mod Lists
pub mod Suspensions
pub mod Words
pub mod Claims
pub mod Owned
pub mod Alone
