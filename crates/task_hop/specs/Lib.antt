pub mod Registers
pub mod Meaning
