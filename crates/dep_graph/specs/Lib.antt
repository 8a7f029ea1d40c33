pub mod Forms
pub mod Spans
pub mod Accesses
pub mod Kinds
pub mod Apart
pub mod Seen
