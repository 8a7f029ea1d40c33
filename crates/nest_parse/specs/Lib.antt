pub mod Grammar
pub mod Expected
