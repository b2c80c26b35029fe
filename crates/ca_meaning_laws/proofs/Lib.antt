pub mod Steady
pub mod Bigs
pub mod Values
pub mod Heaps
pub mod Evals
pub mod Statements
pub mod FunctionTypes
pub mod SerialTypes
pub mod SectionTypes
mod Examples
