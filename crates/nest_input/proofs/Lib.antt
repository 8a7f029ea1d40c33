pub mod Spots
pub mod OneNest
pub mod Told
