pub mod Allows
pub mod Stores
pub mod Values
pub mod Joined
pub mod Conditions
pub mod Walks
pub mod Regions
pub mod Sound
pub mod Actions
pub mod Held
pub mod Statements
pub mod Settings
pub mod Heads
pub mod ForLoops
pub mod EachCosts
pub mod WhileLoops
pub mod Transfers
pub mod Scans
pub mod Lockless
pub mod Routines
pub mod Services
pub mod Orders
pub mod ParameterNumbers
pub mod Accepted
pub mod Fitting
mod Rows
mod TransferRows
mod EachRows
