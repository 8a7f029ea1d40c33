pub mod Blocks
pub mod Tasks
