-- Laws of the leaves on vectors.
pub mod Entries
