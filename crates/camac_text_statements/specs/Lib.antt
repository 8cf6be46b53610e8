pub mod Transfers
pub mod Statements
