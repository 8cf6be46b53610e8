pub mod SampleScripts
mod StraightRows
mod ControlRows
pub mod Runs
pub mod Rules
pub mod Kept
pub mod Counts
pub mod Usage
pub mod Grown
pub mod AnswersUsed
pub mod Values
pub mod Locks
pub mod Headline
pub mod Rounds
pub mod Transferred
pub mod Demands
