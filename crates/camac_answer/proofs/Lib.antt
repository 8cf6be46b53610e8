pub mod Readings
pub mod Digits
pub mod Spelled
