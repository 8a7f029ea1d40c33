pub mod Notes
pub mod Forgetting
pub mod Carried
pub mod Costing
