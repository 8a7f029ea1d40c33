pub mod Pieces
pub mod System
pub mod Bodies
pub mod Stops
