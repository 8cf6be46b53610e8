pub mod Source
pub mod Explanation
pub mod Sentence
