pub mod Heeding
pub mod Words
pub mod Machine
pub mod Runs
pub mod Told
pub mod Fitting
pub mod Known
pub mod Noted
