pub mod Pending
pub mod Order
pub mod Complete
