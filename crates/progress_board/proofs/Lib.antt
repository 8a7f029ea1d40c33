pub mod Runs
pub mod Rotation
pub mod Measures
pub mod Legal
pub mod Turns
pub mod Places
