pub mod Tokens
pub mod Whole
