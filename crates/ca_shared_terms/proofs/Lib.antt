pub mod Heavier
mod Boxed
mod Gathered
mod Smaller
