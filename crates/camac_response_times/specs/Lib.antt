pub mod Response
pub mod Rounds
pub mod Found
pub mod Rates
pub mod Setting
