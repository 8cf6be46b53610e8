pub mod Sent
pub mod Told
pub mod Play
pub mod Headline
pub mod RunIo
pub mod Abandoned
pub mod Size
