pub mod Counting
pub mod Ordered
