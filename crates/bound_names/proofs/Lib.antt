pub mod Equations
pub mod Scopes
pub mod Outside
pub mod Meanings
pub mod Walk
