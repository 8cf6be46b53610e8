pub mod Statements
pub mod Weights
pub mod Laid
pub mod Turns
pub mod Rows
