-- Laws that belong to no one function.
pub mod Unmarked
pub mod Turns
pub mod Moves
pub mod Runs
pub mod Reduces
pub mod Restores
pub mod Blocks
pub mod Spreads
pub mod Examples
pub mod Unique
