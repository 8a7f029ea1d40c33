pub mod Restored
pub mod Lowest
pub mod Equations
pub mod Nodes
pub mod Steps
pub mod Entered
pub mod Around
