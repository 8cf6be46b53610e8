pub mod Place
pub mod Path
pub mod Told
pub mod Sentence
