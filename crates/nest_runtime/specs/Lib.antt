pub mod Ran
pub mod Opened
pub mod Jobs
pub mod Speculation
