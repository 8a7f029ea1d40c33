mod Tests
mod Reached
mod Passing
mod Numbering
