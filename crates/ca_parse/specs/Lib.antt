pub mod Compounds
pub mod Grammar
pub mod clauses
