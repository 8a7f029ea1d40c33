pub mod Walk
pub mod Rounds
pub mod Laws
