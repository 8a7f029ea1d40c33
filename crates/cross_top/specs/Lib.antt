pub mod Exit
pub mod Words
pub mod Refusals
pub mod Answers
pub mod Ends
pub mod Threads
