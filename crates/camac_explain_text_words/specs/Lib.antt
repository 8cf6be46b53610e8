pub mod Absent
pub mod Forms
pub mod Spelled
