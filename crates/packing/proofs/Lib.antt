-- Laws that belong to no one function.
pub mod Corners
pub mod Lents
pub mod Layings
pub mod Called
pub mod Unique
pub mod Packed
pub mod Examples
