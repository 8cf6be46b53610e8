pub mod Whole
pub mod PlaceLaws
pub mod PlacesReached
pub mod PlaceTurns
