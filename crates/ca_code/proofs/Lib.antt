pub mod Laying
pub mod Operands
pub mod Flowing
pub mod Places
pub mod LaidOut
pub mod Params
pub mod Copying
mod Examples
