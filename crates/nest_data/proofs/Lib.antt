pub mod Fronts
pub mod Gathered
pub mod Kept
pub mod Parted
pub mod Placed
mod Summed
pub mod Told
pub mod Writing
pub mod Faulty
