pub mod ChainRules
pub mod Examples
pub mod Follow
pub mod Fronts
pub mod Lists
pub mod Outer
pub mod Rules
pub mod Terminals
