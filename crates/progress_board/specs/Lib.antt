pub mod Options
pub mod Actors
pub mod Runs
pub mod Rotation
