pub mod Lines
pub mod Values
pub mod Data
pub mod OfLines
pub mod Faults
pub mod Progress
pub mod Sum
pub mod Text
