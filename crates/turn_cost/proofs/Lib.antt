pub mod Costly
