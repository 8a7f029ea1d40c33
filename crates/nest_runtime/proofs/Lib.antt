pub mod Driven
pub mod Due
pub mod Speculation
pub mod Crossing
