mod Names
mod Parting
