pub mod Store
pub mod Course
pub mod Rest
pub mod Within
pub mod MachineState
