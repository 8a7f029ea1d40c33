pub mod Noted
pub mod Overlap
pub mod Spans
pub mod Ranges
pub mod RangeLaws
pub mod Exact
pub mod ExactLaws
