pub mod Memory
pub mod Layout
