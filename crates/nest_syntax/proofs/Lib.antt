pub mod Equations
pub mod Places
pub mod Reckoned
pub mod Shapes
pub mod Inductions
pub mod LowerLists
pub mod Lowers
