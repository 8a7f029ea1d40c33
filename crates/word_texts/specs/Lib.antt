pub mod Command
pub mod Found
pub mod Spelling
