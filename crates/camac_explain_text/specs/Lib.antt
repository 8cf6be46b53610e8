pub mod Byte
pub mod Hint
pub mod Meant
pub mod Mistake
pub mod Sentence
