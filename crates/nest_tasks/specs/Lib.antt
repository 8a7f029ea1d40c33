pub mod Forgetting
pub mod Carried
pub mod Longest
