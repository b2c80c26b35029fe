pub mod Olds
pub mod Puts
pub mod Hands
