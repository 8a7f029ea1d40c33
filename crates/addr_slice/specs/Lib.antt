pub mod Claims
pub mod WordSet
pub mod Slice
pub mod Met
