pub mod State
pub mod Tokens
pub mod Kept
pub mod Guards
pub mod Laws
