pub mod Least
pub mod Found
pub mod Hulls
pub mod Nearest
pub mod Iterations
pub mod Walked
