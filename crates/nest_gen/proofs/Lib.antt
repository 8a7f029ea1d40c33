mod Left
mod Short
