pub mod FirstTasks
pub mod FirstHistories
pub mod SameSeats
