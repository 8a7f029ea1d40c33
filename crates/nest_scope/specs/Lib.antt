pub mod Occurrences
pub mod Rules
pub mod Restored
pub mod Noted
pub mod Entered
