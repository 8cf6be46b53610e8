pub mod Ends
pub mod Judges
pub mod Faults
pub mod Least
pub mod Refusals
