pub mod Commands
pub mod Surely
