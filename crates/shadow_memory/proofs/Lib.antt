pub mod Conflicts
pub mod Greatest
pub mod Maximum
pub mod Noting
pub mod Places
