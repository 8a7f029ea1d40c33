pub mod Swapping
pub mod Settling
