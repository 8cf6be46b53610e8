pub mod Parts
pub mod Drives
pub mod QStopLists
pub mod QRepeatLists
pub mod ScanLists
pub mod InProgress
