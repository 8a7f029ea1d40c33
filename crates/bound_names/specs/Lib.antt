pub mod Uses
pub mod Meant
