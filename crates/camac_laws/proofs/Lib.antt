pub mod Least
pub mod Steps
pub mod Guarded
pub mod ShownTurns
pub mod ShownExpressions
pub mod ShownAddresses
mod AddressRows
pub mod ShownWindows
pub mod Places
pub mod RefusedAt
pub mod Regions
pub mod Values
pub mod ScansJudged
pub mod Sums
pub mod Shares
pub mod Times
pub mod MadeLists
pub mod Made
pub mod MadeRuns
mod Listed
