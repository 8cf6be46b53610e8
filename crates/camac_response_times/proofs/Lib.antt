pub mod Rounds
pub mod Rates
pub mod Words
