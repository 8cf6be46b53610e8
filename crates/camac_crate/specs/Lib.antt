pub mod Controller
pub mod State
pub mod Lock
