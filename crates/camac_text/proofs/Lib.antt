pub mod Listed
pub mod Variables
pub mod TablesRead
pub mod ParametersRead
pub mod Declares
pub mod WellFormed
pub mod Extends
pub mod Faults
