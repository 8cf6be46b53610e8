pub mod Gives
pub mod Stations
