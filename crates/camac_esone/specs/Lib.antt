pub mod Transfers
pub mod Lists
pub mod Laws
pub mod Bounds
pub mod Progress
pub mod InProgress
pub mod Calls
