pub mod Expressions
pub mod Arguments
pub mod Conditions
pub mod Keeps
pub mod Views
