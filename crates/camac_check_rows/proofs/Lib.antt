pub mod Kept
pub mod Merged
pub mod Laid
mod EachRows
