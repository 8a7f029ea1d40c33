mod Cuts
mod Exact
mod Given
mod Rows
mod Rules
mod Taken
mod Turns
