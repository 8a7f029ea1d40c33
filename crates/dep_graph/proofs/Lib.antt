mod Wide
pub mod Whole
pub mod Values
pub mod Reach
pub mod Scalars
pub mod Touching
pub mod Meaning
pub mod Bodies
pub mod Parting
pub mod Locals
pub mod Orderly
pub mod Apart
pub mod Gathers
pub mod Firsts
pub mod Near
pub mod Frees
