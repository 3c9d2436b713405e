-- Laws of the trials, in the order in which they build on each other.
pub mod Lowering
pub mod Turning
pub mod Bounding
