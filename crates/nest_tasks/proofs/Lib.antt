pub mod Dropping
pub mod Carrying
pub mod Longest
