pub mod Comparisons
pub mod Marks
