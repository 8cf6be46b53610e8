pub mod Link
pub mod Linked
pub mod OwnBits
