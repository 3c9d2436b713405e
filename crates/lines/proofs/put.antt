-- Laws of writing.
pub mod Putting
