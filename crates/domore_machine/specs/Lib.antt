pub mod Waits
pub mod Facts
pub mod Machine
pub mod Rows
pub mod Runs
pub mod Theorems
pub mod Measure
pub mod Invariant
