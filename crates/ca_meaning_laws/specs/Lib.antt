pub mod Budgets
pub mod Typed
