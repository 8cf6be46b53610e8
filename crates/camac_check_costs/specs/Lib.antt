pub mod Body
pub mod Bodies
pub mod Texts
pub mod Turns
pub mod Places
pub mod Stands
pub mod Known
