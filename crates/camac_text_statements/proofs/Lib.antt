pub mod Acts
pub mod Blocks
pub mod LoopsRead
pub mod TransfersRead
pub mod Bodies
pub mod LocalStatements
