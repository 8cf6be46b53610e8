pub mod Answered
pub mod Begun
pub mod Calls
pub mod Over
pub mod Taken
