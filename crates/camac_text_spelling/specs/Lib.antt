pub mod Pieces
pub mod Phrases
pub mod Statements
pub mod Declarations
pub mod Spells
