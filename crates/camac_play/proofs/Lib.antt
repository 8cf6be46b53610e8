pub mod Sending
pub mod Fed
pub mod Counting
pub mod Files
pub mod Left
pub mod Heard
pub mod Whole
pub mod Sizes
