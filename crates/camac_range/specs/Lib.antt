pub mod Compare
pub mod Number
pub mod Interval
pub mod Operators
pub mod Narrow
pub mod Laws
