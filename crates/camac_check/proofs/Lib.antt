pub mod Judged
pub mod Capped
pub mod Blocks
pub mod Heading
pub mod LeastFound
pub mod Rows
