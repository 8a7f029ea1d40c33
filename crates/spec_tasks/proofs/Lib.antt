pub mod Notes
pub mod Dropping
pub mod Carrying
pub mod Costing
