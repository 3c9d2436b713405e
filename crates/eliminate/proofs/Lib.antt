-- Laws that belong to no one function.
pub mod Keeping
pub mod Triangular
pub mod Rotations
pub mod Settling
pub mod Stairs
pub mod Lent
pub mod Unique
