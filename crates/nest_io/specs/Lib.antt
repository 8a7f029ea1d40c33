pub mod Count
pub mod Stream
pub mod MemorySource
pub mod MemorySink
pub mod Standard
