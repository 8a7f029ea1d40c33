pub mod Text
pub mod Deps
pub mod Report
pub mod Steps
