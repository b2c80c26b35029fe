pub mod Events
pub mod Paths
pub mod Discipline
pub mod Guarded
pub mod Resolves
pub mod Sites
pub mod Courses
