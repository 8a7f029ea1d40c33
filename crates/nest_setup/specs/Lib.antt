pub mod Pieces
pub mod Setups
pub mod Laws
pub mod Ahead
pub mod Walked
