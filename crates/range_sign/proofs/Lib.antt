pub mod Belows
mod Made
mod Meets
mod Words
