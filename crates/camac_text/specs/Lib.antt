pub mod Procedures
pub mod Headings
pub mod Tables
pub mod Declarations
pub mod Parser
pub mod Expecting
pub mod Places
