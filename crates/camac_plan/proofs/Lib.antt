pub mod Documents
mod Firsts
mod Twice
