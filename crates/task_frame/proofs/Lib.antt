pub mod Realised
pub mod Bodies
pub mod Stops
