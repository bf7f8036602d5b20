pub mod Called
pub mod Lent
pub mod Places
pub mod Spelled
