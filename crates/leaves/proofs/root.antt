-- Laws of the square root, in the order in which they build on each other.
pub mod Raising
pub mod Whole
pub mod Digits
pub mod Scaled
pub mod Floats
pub mod Patterns
pub mod Bounds
pub mod Same
pub mod Meets
pub mod Signs
pub mod Unique
