pub mod Checked
pub mod Codes
pub mod Pairs
pub mod Plans
pub mod Texts
pub mod Told
pub mod clauses
