-- Laws of the elimination, in the order in which they build on each other.
pub mod Mirroring
pub mod Placing
