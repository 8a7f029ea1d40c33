pub mod Signs
pub mod Setups
pub mod Laws
pub mod Blocks
pub mod Ahead
