pub mod Types
pub mod Explained
pub mod Findings
pub mod Told
