pub mod Costs
pub mod Meant
pub mod Demanded
pub mod Laws
