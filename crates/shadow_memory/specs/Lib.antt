pub mod Notes
pub mod Last
pub mod Accesses
pub mod Laws
