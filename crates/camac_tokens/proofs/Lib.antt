pub mod Spellings
pub mod Scans
pub mod Steps
pub mod Uncut
