pub mod Input
pub mod Jobs
pub mod Causes
pub mod Status
pub mod Devices
