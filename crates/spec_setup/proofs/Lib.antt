pub mod Signs
pub mod Follows
pub mod Right
pub mod Keeps
pub mod Blocks
pub mod Counts
pub mod Going
pub mod Scripts
