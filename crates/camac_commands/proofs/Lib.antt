pub mod Actions
pub mod ByRows
pub mod Statements
pub mod Made
pub mod Services
pub mod Counted
