pub mod Words
pub mod Rules
pub mod Fault
pub mod Start
pub mod Scanning
pub mod Cut
pub mod Left
pub mod Broken
