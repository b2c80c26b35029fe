pub mod Jumps
pub mod Places
