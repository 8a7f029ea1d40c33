pub mod OneAnswer
pub mod Replies
pub mod Textual
pub mod Written
