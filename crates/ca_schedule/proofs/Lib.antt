pub mod Alike
pub mod Fewer
pub mod Shares
