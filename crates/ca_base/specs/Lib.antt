pub mod Devices
pub mod InMemory
pub mod Reading
