mod Examples
pub mod Linking
